mod Members
mod Bounds
mod Ending
mod Untargeted
mod Enough
mod Keeping
mod Pausing
