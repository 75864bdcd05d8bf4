mod AskingFacts
mod ReplyFacts
mod ExchangeFacts
pub mod ServingFacts
pub mod IsolatedFacts
mod ListFacts
pub mod NextFacts
mod ConnectionFacts
pub mod ReplayFacts
mod LawfulFacts
mod RestFacts
mod NotedFacts
