pub mod Codes
pub mod Places
pub mod Sums
pub mod Shapes
