pub mod Reading
pub mod Stepping
pub mod RowTables
pub mod Planning
