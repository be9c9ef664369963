pub mod Firsts
pub mod Joins
pub mod Tables
pub mod Nodes
