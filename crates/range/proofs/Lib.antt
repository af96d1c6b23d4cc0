pub mod Codes
pub mod Bounding
pub mod Ordering
pub mod Comparing
pub mod Connecting
pub mod Corners
pub mod Working
