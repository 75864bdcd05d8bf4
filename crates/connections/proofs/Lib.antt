mod SlotFacts
pub mod ReadingFacts
mod DeviceFacts
mod OwnFacts
mod MemoryFacts
mod SettledFacts
mod TurnFacts
pub mod SideFacts
pub mod RoundFacts
pub mod CallFacts
mod IntakeFacts
mod FairFacts
mod PreviewFacts
