pub mod Update
pub mod Commute
pub mod Conflicts
pub mod Left
pub mod Complete
pub mod Whole
pub mod Opens
pub mod Serial
