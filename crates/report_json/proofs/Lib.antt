pub mod JsonFacts
pub mod DateFacts
mod Examples
