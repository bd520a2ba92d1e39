pub mod Sums
pub mod Frames
pub mod Reading
pub mod Laws
