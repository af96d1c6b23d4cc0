pub mod Tests
pub mod Extents
pub mod Tells
pub mod Worked
pub mod Agreeing
