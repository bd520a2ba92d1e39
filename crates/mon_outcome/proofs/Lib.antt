pub mod Equality
pub mod Classes
pub mod Rewriting
pub mod Bitwise
