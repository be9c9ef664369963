pub mod Charges
pub mod Courses
pub mod Outcomes
pub mod Visits
