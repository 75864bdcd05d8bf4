pub mod PlaceFacts
pub mod StepFacts
pub mod FoundFacts
pub mod JsonFacts
pub mod TableFacts
pub mod ToldFacts
