mod Indexes
mod Masks
mod Totals
mod Counting
mod Turns
mod Made
mod Added
mod Parts
