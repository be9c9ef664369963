pub mod Ranges
pub mod Parts
pub mod Order
pub mod Strips
