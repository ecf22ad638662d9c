mod Told
pub mod Host
