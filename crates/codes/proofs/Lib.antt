pub mod Extremes
pub mod WithinEnds
pub mod Outside
