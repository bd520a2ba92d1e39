pub mod Naming
pub mod Refusals
pub mod Edits
pub mod Frames
pub mod Laws
