pub mod CutFacts
pub mod NodeVerdictFacts
pub mod UnitedFacts
pub mod FrameFacts
pub mod PartFacts
pub mod PlanFacts
pub mod NodeFacts
pub mod ClimbFacts
pub mod AboveFacts
pub mod WalkingFacts
pub mod AnswerFacts
mod Examples
