pub mod Ascending
pub mod Links
pub mod Tags
pub mod Colour
