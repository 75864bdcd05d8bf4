pub mod BlockedFacts
pub mod ListFacts
