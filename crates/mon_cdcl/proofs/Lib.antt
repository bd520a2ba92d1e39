pub mod Noting
pub mod Walks
pub mod Targets
pub mod Learning
pub mod Steps
pub mod Searching
