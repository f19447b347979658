mod Numbering
mod Bringing
mod Putting
pub mod Whole
mod Runs
