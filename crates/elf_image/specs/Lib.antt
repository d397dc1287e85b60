pub mod Elf
pub mod ImageFault
pub mod Layout
pub mod PageTable
pub mod Directory
pub mod Memory
