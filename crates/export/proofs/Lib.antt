mod Interface
pub mod Fields
pub mod HandedOut
