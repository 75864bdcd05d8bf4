pub mod Cache
pub mod Lent
