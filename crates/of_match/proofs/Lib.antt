pub mod RoundTrip
pub mod Ordering
