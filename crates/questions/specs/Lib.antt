pub mod Order
pub mod Sorts
pub mod Asked
