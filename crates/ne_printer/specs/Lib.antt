pub mod Entries
pub mod ReadLines
pub mod TextLines
