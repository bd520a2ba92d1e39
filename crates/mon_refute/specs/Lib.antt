pub mod Lines
pub mod Follow
pub mod Marks
pub mod Law
pub mod Text
pub mod Reading
