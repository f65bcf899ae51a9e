pub mod Answers
pub mod Lines
pub mod Says
pub mod Texts
