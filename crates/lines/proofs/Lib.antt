pub mod Taken
pub mod Refusals
pub mod Cutting
