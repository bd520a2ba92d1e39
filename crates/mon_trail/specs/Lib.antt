pub mod Marks
pub mod Looks
pub mod Trail
pub mod Picks
