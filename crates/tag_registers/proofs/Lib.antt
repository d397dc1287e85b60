pub mod Folding
pub mod Fired
pub mod Packing
pub mod Consumed
pub mod TagWords
pub mod WordOperation
pub mod Keeping
