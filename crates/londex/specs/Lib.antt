pub mod Answers
pub mod Bounds
pub mod Tables
pub mod Ways
