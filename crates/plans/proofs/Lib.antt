pub mod Accepting
pub mod LaneBound
pub mod Numbered
pub mod OneAnswer
pub mod Sizes
pub mod SumBound
