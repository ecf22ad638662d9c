pub mod Places
pub mod Native
pub mod Location
pub mod Key
pub mod Text
pub mod Number
pub mod CodeKey
