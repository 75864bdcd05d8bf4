pub mod ListFacts
pub mod ResultFacts
pub mod TestFacts
