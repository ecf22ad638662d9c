pub mod Texts
pub mod Keys
pub mod Records
