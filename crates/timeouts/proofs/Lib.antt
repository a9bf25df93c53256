pub mod Placing
pub mod Filters
pub mod Accounts
