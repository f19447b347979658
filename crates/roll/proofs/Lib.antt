pub mod Split
pub mod Keeps
mod Owed
mod ByCall
mod Fits
mod Changed
mod Opens
mod Invariant
pub mod Holds
pub mod Parts
