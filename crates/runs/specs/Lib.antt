pub mod Told
pub mod Obeys
pub mod Text
