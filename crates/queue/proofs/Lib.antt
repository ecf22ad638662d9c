pub mod Sessions
pub mod Areas
pub mod HeldPress
pub mod Standing
