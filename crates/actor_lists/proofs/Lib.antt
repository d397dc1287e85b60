pub mod WalkedLists
pub mod Folded
