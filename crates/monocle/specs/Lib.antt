pub mod Calls
pub mod Planning
pub mod Replay
pub mod Ending
pub mod Running
