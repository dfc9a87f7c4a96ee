pub mod Ranges
pub mod Strands
