pub mod Kept
pub mod Keys
mod Events
pub mod Units
