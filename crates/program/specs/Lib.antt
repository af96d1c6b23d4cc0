pub mod Faults
pub mod Input
pub mod Refusals
pub mod Reading
pub mod Stopping
pub mod Text
pub mod Entered
pub mod Printed
