pub mod Lists
pub mod Seating
pub mod Standing
pub mod Running
pub mod Beginning
pub mod Finishing
pub mod Walked
