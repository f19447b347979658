pub mod Tables
mod Searches
pub mod Entries
pub mod Tracking
pub mod Room
pub mod Draining
pub mod Parting
mod Crowds
pub mod Propositions
mod Empty
pub mod Laws
