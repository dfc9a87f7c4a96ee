pub mod Version
pub mod Equal
