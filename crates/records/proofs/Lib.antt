pub mod Digits
pub mod Pieces
pub mod Row
pub mod Spelled
pub mod Terms
pub mod Written
