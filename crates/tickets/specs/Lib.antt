pub mod Filled
pub mod Kept
pub mod Lines
pub mod Refusals
pub mod Refused
pub mod Scales
pub mod Writing
