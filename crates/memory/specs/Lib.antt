pub mod Lists
pub mod Keeping
pub mod Memories
pub mod Noting
pub mod Compare
