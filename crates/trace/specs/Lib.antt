pub mod Numeral
pub mod Form
pub mod Grammar
pub mod Wrote
pub mod Lines
