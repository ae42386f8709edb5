pub mod Laws
pub mod Lists
pub mod PivotedRows
pub mod Pivots
pub mod Rows
pub mod Shorts
pub mod StartRows
pub mod Steps
