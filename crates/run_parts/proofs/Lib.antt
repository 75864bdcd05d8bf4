pub mod FilesFacts
pub mod LineFacts
pub mod OutputFacts
