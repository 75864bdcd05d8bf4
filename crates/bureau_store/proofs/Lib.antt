mod Examples
pub mod CallerFacts
pub mod ProperFacts
pub mod SetCallersFacts
pub mod StoreFacts
pub mod TableFacts
