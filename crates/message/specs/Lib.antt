pub mod Kinds
pub mod Contents
pub mod Fields
