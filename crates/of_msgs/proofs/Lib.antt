pub mod Mods
pub mod Written
pub mod Determined
pub mod Spelling
