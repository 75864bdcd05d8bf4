pub mod ChainFacts
mod ErrorFacts
mod Examples
mod KeyedFacts
mod MissingFacts
mod OrderFacts
pub mod ResolverFacts
