pub mod Words
pub mod Lists
pub mod Passed
pub mod Histories
pub mod Staged
pub mod Following
pub mod Underway
pub mod Ranges
pub mod Finishing
pub mod Asking
pub mod KindsKept
pub mod Wholes
pub mod Present
pub mod Aging
pub mod Near
pub mod HomeLemmas
pub mod Members
pub mod Behind
pub mod HomesMade
pub mod Asked
pub mod Added
pub mod Concerning
mod Tested
mod Exchange
mod Leaving
mod Unasked
