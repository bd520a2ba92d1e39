pub mod Following
pub mod Choosing
pub mod Judging
pub mod Differing
