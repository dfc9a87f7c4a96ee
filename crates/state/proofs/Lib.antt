pub mod Parts
pub mod Lent
pub mod Lookups
