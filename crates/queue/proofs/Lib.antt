mod Same
pub mod Steps
pub mod Turns
