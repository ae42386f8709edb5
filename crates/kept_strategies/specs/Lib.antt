pub mod Comparisons
pub mod Kept
