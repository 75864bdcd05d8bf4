mod Examples
pub mod InsertFacts
pub mod FoundFacts
pub mod CategoryFacts
pub mod OperandFacts
pub mod AskedFacts
pub mod StatementFacts
pub mod KeyFacts
pub mod SortKeyFacts
pub mod EntryFacts
pub mod TextFacts
pub mod BookFacts
pub mod DateFacts
pub mod BatchFacts
pub mod LastFacts
pub mod JoinedFacts
