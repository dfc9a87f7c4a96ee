pub mod Bools
pub mod Counts
pub mod Alls
pub mod Belows
pub mod Walks
pub mod Finds
pub mod Stores
