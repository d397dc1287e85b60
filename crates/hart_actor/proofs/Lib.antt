pub mod Cutting
pub mod UnitSteps
pub mod Moving
pub mod Stages
pub mod Beginning
pub mod UnitKinds
pub mod Drawing
pub mod Turning
