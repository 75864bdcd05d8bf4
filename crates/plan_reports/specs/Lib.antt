pub mod Members
pub mod Found
pub mod Adding
pub mod Json
pub mod Tables
pub mod Replies
