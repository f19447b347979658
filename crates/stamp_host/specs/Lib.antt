pub mod Limit
pub mod Rule
pub mod Stamps
