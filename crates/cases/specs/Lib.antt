pub mod Hexadecimal
pub mod Stamps
pub mod Words
