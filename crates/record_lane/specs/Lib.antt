pub mod Sound
pub mod Histories
pub mod LaneRule
pub mod Lanes
pub mod RingRule
pub mod Rings
