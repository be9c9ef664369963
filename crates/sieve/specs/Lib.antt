pub mod Subjects
pub mod Kinds
pub mod Laws
