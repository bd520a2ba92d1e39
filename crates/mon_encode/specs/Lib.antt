pub mod Cases
pub mod Clauses
pub mod Formulas
