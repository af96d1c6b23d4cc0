pub mod Number
pub mod Place
pub mod Ends
pub mod Fraction
pub mod Bytes
