pub mod Desk
pub mod Gathering
pub mod Inputs
pub mod Lists
pub mod Read
pub mod Reports
