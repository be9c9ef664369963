pub mod Flaws
pub mod Finds
pub mod Texts
