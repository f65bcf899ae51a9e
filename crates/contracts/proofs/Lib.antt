pub mod InRange
pub mod Steps
