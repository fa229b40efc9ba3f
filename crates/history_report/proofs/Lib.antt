mod Few
mod Ands
mod Pieces
mod Lines
mod Fronts
mod Onward
mod Once
