pub mod Planning
pub mod Ranging
pub mod Sharing
pub mod Checking
pub mod Counting
