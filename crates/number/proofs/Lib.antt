pub mod Ring
pub mod Fractions
pub mod Places
pub mod Ends
pub mod Quotients
pub mod Ranges
pub mod Written
