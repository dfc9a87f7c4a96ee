pub mod Buckets
pub mod Digests
pub mod Rows
