pub mod Press
pub mod EventParts
