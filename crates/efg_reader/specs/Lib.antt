pub mod PartialCodes
pub mod States
pub mod Stops
