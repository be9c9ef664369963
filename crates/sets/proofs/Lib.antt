pub mod Members
pub mod Counts
pub mod Marks
pub mod Digits
pub mod Gathers
pub mod Chains
pub mod Finds
pub mod Walks
