pub mod Sifted
pub mod Turns
pub mod Walked
