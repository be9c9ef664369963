pub mod Shift
pub mod Fronts
pub mod Actions
pub mod Keeps
pub mod Every
