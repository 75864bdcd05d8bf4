pub mod Giving
pub mod Leading
pub mod Reach
pub mod Zone
