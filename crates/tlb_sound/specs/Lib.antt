pub mod Asked
pub mod Buckets
pub mod Digests
