pub mod Numbers
pub mod Parts
pub mod Arguments
pub mod Commands
