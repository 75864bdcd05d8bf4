pub mod Examples
pub mod GivingFacts
pub mod LeadingFacts
pub mod PathFacts
pub mod ReachFacts
mod SearchFacts
pub mod WithoutFacts
pub mod ZoneFacts
