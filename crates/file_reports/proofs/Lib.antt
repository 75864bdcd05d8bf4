mod DeskFacts
mod GatheringFacts
pub mod InputFacts
mod ReportFacts
