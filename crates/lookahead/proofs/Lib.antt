pub mod Tables
pub mod Asked
