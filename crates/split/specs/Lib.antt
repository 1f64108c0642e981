pub mod Bytes
pub mod Words
pub mod Lanes
pub mod Rows
pub mod Tables
pub mod Packings
pub mod ByteCodes
