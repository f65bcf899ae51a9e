pub mod Ranges
pub mod Rows
pub mod Same
pub mod Writing
