pub mod Claims
pub mod Queues
pub mod Decided
