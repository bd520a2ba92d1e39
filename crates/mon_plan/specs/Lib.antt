pub mod Planning
pub mod Sharing
pub mod Checking
pub mod Counting
