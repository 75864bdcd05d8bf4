mod AloneFacts
mod BeginFacts
pub mod KeepingFacts
pub mod OpensFacts
mod ReadFacts
pub mod RunsFacts
pub mod ServingFacts
mod StayingFacts
mod ReplayFacts
