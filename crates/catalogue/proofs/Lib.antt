mod Examples
pub mod IdFacts
pub mod RecordFacts
pub mod SupersedeFacts
pub mod TouchingFacts
pub mod TouchedFacts
pub mod BookFacts
pub mod EntryFacts
pub mod HeaderFacts
pub mod IndexFacts
pub mod PublicationFacts
pub mod ReadingFacts
pub mod AskedFacts
pub mod SourceFacts
pub mod TellingFacts
