pub mod Standing
pub mod Sounding
pub mod Moving
pub mod Leading
pub mod Growing
pub mod Machine
