pub mod Intake
pub mod Transfer
