pub mod Crew
pub mod Marks
pub mod Outs
pub mod Places
pub mod Plain
pub mod Sides
