pub mod Rows
pub mod Tags
pub mod Folds
pub mod WordOperation
pub mod Looked
pub mod Files
