pub mod Forms
pub mod Laws
pub mod Paths
pub mod Sequences
