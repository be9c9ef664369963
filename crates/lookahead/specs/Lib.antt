pub mod Tests
pub mod Kinds
pub mod Tables
pub mod Views
pub mod Laws
pub mod Says
pub mod Outlooks
