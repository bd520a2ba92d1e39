pub mod Asking
pub mod Separating
