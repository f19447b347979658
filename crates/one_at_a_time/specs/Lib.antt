pub mod Alone
pub mod Journal
pub mod Ran
