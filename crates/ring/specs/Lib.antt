pub mod Capacity
pub mod Model
