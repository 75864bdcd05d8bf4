pub mod AskingFacts
pub mod OrderFacts
pub mod IndexFacts
pub mod SearchFacts
pub mod GoodFacts
pub mod StatusFacts
pub mod VerdictFacts
pub mod Examples
