pub mod Held
pub mod Hull
pub mod Outcomes
pub mod Truths
pub mod Bounds
pub mod Entries
pub mod Corner
pub mod Worked
