pub mod GatherFacts
pub mod HeadFacts
pub mod LinkFacts
pub mod OrderFacts
