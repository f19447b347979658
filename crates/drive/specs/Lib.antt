pub mod Law
pub mod Turns
pub mod Lines
pub mod Feeding
pub mod Text
