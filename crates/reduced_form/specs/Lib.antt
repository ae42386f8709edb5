pub mod Cells
pub mod Counts
pub mod Limits
pub mod ReducedForm
pub mod Stops
