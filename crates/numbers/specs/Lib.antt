pub mod Pair
pub mod Rational
pub mod Bytes
pub mod Choice
