pub mod Metrics
pub mod Text
pub mod Json
pub mod Requests
pub mod Responses
