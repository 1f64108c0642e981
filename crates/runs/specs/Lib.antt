pub mod Stories
pub mod Feeds
pub mod Tells
pub mod Calls
pub mod Law
pub mod Refusals
pub mod Passes
