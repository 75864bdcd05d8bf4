pub mod Counts
pub mod Dates
pub mod Json
