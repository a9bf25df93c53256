pub mod InRound
pub mod Stages
pub mod Soonest
pub mod Highest
pub mod Holding
pub mod Ending
