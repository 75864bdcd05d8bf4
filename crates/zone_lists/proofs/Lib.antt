mod Examples
pub mod EachFacts
pub mod FieldFacts
pub mod FirstFacts
pub mod KeyFacts
pub mod ListFacts
pub mod OwnFaultFacts
pub mod PatternFacts
pub mod ReaderFacts
pub mod RowFacts
