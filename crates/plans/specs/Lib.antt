pub mod Kinds
pub mod Lanes
pub mod Questions
pub mod Answers
pub mod Bounds
pub mod Plans
pub mod AnyPlans
