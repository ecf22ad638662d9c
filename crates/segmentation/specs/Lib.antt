pub mod Classes
pub mod Rules
pub mod Table
pub mod Layout
pub mod Forward
