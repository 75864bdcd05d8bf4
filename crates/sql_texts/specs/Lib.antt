pub mod Creation
pub mod Found
pub mod Meaning
pub mod Reads
pub mod Schema
pub mod Writes
