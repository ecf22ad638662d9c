pub mod Check
pub mod Passed
pub mod Search
