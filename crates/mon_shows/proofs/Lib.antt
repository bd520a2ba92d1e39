pub mod Seeing
pub mod Keeping
pub mod Following
pub mod Looking
pub mod Showing
pub mod Undoing
