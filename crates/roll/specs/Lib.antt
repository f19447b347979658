pub mod Roll
pub mod Tables
pub mod Calls
pub mod Built
pub mod Rehearsal
pub mod History
pub mod Law
