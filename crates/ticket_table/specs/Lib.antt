pub mod Words
pub mod History
pub mod Views
pub mod Rule
pub mod Passes
pub mod Calls
pub mod Gathered
