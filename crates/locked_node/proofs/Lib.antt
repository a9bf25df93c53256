pub mod Crossing
mod Walks
mod Growing
mod Replaying
mod Feeds
mod Stepping
mod Certifying
mod Places
mod Meetings
mod Subscribers
