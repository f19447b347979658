pub mod Limit
pub mod Rule
pub mod Tiles
