pub mod Refusals
pub mod Groups
pub mod Answers
pub mod Meanings
pub mod Lists
pub mod Reads
pub mod Allowed
pub mod Tables
