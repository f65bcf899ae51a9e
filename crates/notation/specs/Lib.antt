pub mod Reading
pub mod LegReading
pub mod Writing
pub mod Spelling
pub mod Words
