-- Of those that run orders, and of those that fetch or predict.
pub mod Orders
pub mod Fetch
