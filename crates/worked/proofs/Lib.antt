pub mod Unions
pub mod Layers
pub mod Spans
pub mod Strips
pub mod Facts
