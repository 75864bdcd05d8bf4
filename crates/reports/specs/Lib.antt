pub mod ChainText
pub mod ErrRows
pub mod Found
pub mod Holds
pub mod Lines
pub mod MissingRows
pub mod ReportText
pub mod Resolvers
