pub mod EntryFacts
pub mod FillFacts
pub mod SurveyFacts
pub mod KeptFacts
pub mod UnitedFacts
pub mod DropFacts
