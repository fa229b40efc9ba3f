pub mod Endless
pub mod HalvedRounds
pub mod Lasting
pub mod Pace
pub mod Sums
