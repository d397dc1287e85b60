pub mod Walked
pub mod Folded
pub mod Queued
