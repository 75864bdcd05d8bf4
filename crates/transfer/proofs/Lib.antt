pub mod FrontFacts
pub mod IntakeFacts
mod RetryFacts
