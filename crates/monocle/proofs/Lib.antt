mod Calling
mod Ending
mod Judging
mod Listing
