pub mod Lines
pub mod Model
pub mod Sound
pub mod Answers
pub mod Stepped
pub mod Entered
pub mod Finished
