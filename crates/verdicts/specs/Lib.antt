pub mod Indices
pub mod Verdicts
pub mod Judge
pub mod United
pub mod Worlds
pub mod Candidates
