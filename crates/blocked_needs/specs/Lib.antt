pub mod Blocked
pub mod Seen
