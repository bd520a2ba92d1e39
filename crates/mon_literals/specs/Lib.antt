pub mod Clauses
pub mod Runs
pub mod Bearing
pub mod Patterns
pub mod Conditions
pub mod Differing
