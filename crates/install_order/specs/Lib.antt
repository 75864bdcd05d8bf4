pub mod Left
pub mod Steps
pub mod Rings
pub mod Levels
