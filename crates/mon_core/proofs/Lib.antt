pub mod Refusing
pub mod Sends
pub mod Turns
pub mod Ending
pub mod Passing
pub mod Arming
pub mod Faults
