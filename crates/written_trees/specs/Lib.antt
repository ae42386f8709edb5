pub mod Building
pub mod Described
pub mod Laws
pub mod Written
