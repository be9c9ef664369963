pub mod Sessions
pub mod Refusals
