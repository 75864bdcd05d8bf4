pub mod FaultText
pub mod Refusal
pub mod Told
