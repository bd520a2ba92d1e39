pub mod Links
pub mod Views
pub mod Changing
pub mod Separation
pub mod Scanning
pub mod Under
