pub mod Order
pub mod Rule
pub mod Ends
