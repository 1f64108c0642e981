pub mod Texts
pub mod Answers
pub mod Responses
pub mod Plans
