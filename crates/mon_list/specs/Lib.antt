pub mod Has
