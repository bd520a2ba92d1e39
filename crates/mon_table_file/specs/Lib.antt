pub mod Filling
pub mod Generator
pub mod Lines
pub mod Reading
pub mod Sections
pub mod TableFile
