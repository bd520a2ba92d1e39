pub mod Rising
pub mod Tallies
