pub mod Setups
pub mod States
pub mod Steps
pub mod Runs
pub mod Outcomes
pub mod FinishedRuns
pub mod TrapLaws
pub mod TraceLaws
