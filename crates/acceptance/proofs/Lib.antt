mod Closing
pub mod Laws
pub mod Lists
mod Places
