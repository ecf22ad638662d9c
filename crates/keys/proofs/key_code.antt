pub mod EachCode
pub mod Codes
pub mod Tags
pub mod CodeKeys
