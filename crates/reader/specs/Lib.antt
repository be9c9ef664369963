pub mod Formats
pub mod Written
pub mod Reads
