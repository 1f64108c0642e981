pub mod SharedOnes
pub mod Loops
pub mod Reading
pub mod Stepping
pub mod Planning
