pub mod Tables
pub mod Refusals
pub mod Views
pub mod Law
