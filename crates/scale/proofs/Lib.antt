pub mod Told
pub mod Counting
