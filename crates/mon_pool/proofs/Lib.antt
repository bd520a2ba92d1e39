pub mod Crossing
pub mod Marking
pub mod Skipping
pub mod Striking
pub mod Versions
