pub mod Seen
pub mod Back
pub mod Search
pub mod Solved
pub mod Counts
pub mod Asking
