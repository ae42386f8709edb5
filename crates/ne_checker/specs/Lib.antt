pub mod AnsweredLaws
pub mod CheckLaws
pub mod LineChecks
pub mod Lines
pub mod Texts
