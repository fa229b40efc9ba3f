mod Kept
mod Numbered
mod Renamed
mod Tabled
mod WrongParts
