mod Marks
pub mod Entries
mod Zeros
