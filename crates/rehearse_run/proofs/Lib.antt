mod Going
mod Looping
mod Whole
mod Shrinks
mod Ending
mod Calling
mod Still
mod Resting
