mod Keys
pub mod Events
pub mod Keyboard
