pub mod Choices
pub mod Members
pub mod Readings
pub mod Findings
pub mod Graphs
pub mod Plans
pub mod Climbs
