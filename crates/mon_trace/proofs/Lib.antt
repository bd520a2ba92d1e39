pub mod Decoding
pub mod FirstLine
pub mod Named
pub mod Places
pub mod Weaving
pub mod Whole
pub mod FirstBad
