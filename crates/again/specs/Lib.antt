pub mod Again
pub mod AgainEntry
