pub mod Counting
pub mod Saying
pub mod Stepping
pub mod Forming
pub mod Whole
