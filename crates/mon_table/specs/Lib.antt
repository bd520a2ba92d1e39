pub mod Rules
pub mod Tables
pub mod Edits
pub mod Winners
pub mod Places
pub mod Covers
pub mod Chunks
pub mod Laws
