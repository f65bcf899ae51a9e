pub mod Refusals
pub mod Entries
pub mod Seatings
pub mod Rows
pub mod Fits
pub mod Search
pub mod Analysis
pub mod Same
