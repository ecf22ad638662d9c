pub mod Room
pub mod Place
pub mod Changed
pub mod Stands
pub mod Completing
