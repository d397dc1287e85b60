pub mod Words
pub mod Harts
pub mod Faults
pub mod Results
pub mod Payloads
pub mod Instructions
pub mod Touched
