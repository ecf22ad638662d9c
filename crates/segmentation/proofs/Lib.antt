pub mod Forward
pub mod Steps
mod Values
