pub mod Jobs
pub mod Verdicts
