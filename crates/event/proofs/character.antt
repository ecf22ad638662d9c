pub mod Given
pub mod Completed
pub mod CompletedWith
