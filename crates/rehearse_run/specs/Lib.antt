pub mod Text
pub mod Rounds
pub mod Session
pub mod Ends
pub mod Made
pub mod Job
