pub mod Report
pub mod Wanted
