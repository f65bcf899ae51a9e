pub mod Five
pub mod Keeping
pub mod Printed
pub mod Saying
