pub mod Errors
pub mod Flags
pub mod Absent
pub mod Kept
pub mod Layout
pub mod FlowMods
pub mod ReadMods
