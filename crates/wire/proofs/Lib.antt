pub mod Answers
pub mod Decodes
