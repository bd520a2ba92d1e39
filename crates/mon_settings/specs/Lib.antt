pub mod Form
pub mod Texts
pub mod Members
pub mod Faults
pub mod Lists
pub mod Names
pub mod Judged
