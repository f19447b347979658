pub mod Limits
pub mod Access
pub mod Codes
pub mod Task
