pub mod Front
pub mod Loop
pub mod RoundTrip
pub mod FirstFault
