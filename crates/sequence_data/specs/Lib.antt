pub mod Cells
pub mod Gathered
pub mod Steps
pub mod Data
pub mod FormCodes
pub mod Matrices
pub mod PlanPairs
pub mod Sizes
