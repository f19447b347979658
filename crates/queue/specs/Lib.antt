pub mod Contents
pub mod Model
pub mod Window
