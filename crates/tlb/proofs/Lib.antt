pub mod Asked
pub mod ByRow
pub mod Seen
