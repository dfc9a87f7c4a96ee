pub mod Fits
pub mod Faults
