pub mod Marks
pub mod Trail
pub mod Search
pub mod Decided
