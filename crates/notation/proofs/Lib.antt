pub mod Numbers
pub mod Parts
pub mod Terms
pub mod Legs
pub mod Back
pub mod Fields
pub mod Split
