pub mod Examples
pub mod Expected
pub mod Values
