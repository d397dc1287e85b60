pub mod Harts
pub mod Standing
pub mod Objects
pub mod Moves
pub mod Turns
