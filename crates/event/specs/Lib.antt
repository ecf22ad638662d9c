pub mod PressKey
pub mod Written
pub mod FocusKeys
