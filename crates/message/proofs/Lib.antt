mod Bytes
mod Numbers
mod Prefix
mod Widths
mod Steps
