pub mod Reaches
pub mod Rests
pub mod Arcs
pub mod Paths
pub mod Covers
pub mod Rules
pub mod Exists
