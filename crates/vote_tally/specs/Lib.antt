pub mod Kept
pub mod Faults
pub mod Totals
pub mod Told
