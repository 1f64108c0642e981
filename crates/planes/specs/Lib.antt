pub mod Planes
pub mod Sums
pub mod Rows
pub mod Packings
pub mod Transposed
