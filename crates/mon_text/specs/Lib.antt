pub mod BadLines
pub mod Faults
pub mod Hex
pub mod Numbers
pub mod Parts
pub mod Reads
