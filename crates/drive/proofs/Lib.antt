pub mod Beside
pub mod Running
mod Turning
mod Asking
