pub mod Stepwise
pub mod Digits
