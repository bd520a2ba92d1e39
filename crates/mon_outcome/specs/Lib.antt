pub mod Acting
pub mod Emitting
pub mod Filling
pub mod Shaping
