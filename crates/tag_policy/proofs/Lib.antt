pub mod Bits
pub mod Forms
pub mod Words
pub mod KeyTests
pub mod Documents
pub mod Texts
pub mod CheckSets
pub mod Rows
