mod AnsweringFacts
pub mod CallerFacts
pub mod ClientFacts
pub mod CountFacts
mod CutFacts
mod HeldFacts
mod JoinFacts
pub mod LengthFacts
mod MemberFacts
pub mod OrderFacts
mod ProperFacts
mod PublishedFacts
mod QuietFacts
mod ScanFacts
mod SeenFacts
pub mod TableFacts
pub mod UnsaidFacts
pub mod VersionFacts
pub mod ZoneFacts
