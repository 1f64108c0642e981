pub mod Words
pub mod Parts
pub mod KernelLines
pub mod PlanLines
