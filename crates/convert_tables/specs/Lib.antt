pub mod Converted
pub mod Examples
pub mod Layouts
pub mod Marks
pub mod Names
