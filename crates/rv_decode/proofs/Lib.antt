pub mod Complete
pub mod Sound
pub mod InRange
pub mod Agreement
