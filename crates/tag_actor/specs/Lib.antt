pub mod Seen
pub mod Standing
pub mod Leaving
pub mod Moves
pub mod Turns
pub mod Machine
