pub mod Patience
pub mod Transfers
pub mod Traffic
pub mod Logged
