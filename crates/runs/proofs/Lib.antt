mod Performed
mod Follows
mod Rest
