pub mod State
pub mod Table
pub mod Covered
pub mod Tracked
pub mod Departures
