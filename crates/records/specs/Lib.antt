pub mod Letters
pub mod Lettered
pub mod Terms
pub mod Reading
pub mod Spelling
pub mod Writing
