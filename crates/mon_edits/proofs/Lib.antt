mod Listing
mod Parts
mod Members
mod Changing
mod Righting
pub mod Adding
