pub mod FieldBits
pub mod Fields
pub mod Leaving
pub mod LineReaders
pub mod Rows
pub mod Certifying
pub mod Spelling
pub mod Written
