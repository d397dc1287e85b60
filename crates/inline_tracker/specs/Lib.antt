pub mod Outcomes
pub mod Walked
pub mod Orders
pub mod Seen
pub mod Cells
pub mod Seats
pub mod Standing
