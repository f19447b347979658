mod Found
pub mod Sound
