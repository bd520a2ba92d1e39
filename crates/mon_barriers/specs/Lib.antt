pub mod Barriers
