pub mod Closing
pub mod Counts
pub mod Lists
pub mod Rising
pub mod Telling
