pub mod Little
pub mod Steps
pub mod Number
pub mod Lists
pub mod Message
