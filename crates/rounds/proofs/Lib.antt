pub mod Orders
pub mod Gathers
pub mod Tables
pub mod Nodes
