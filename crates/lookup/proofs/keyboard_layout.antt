pub mod Sets
pub mod Keys
pub mod Ranges
