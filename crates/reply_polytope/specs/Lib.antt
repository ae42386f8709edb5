pub mod AnsweredLaws
pub mod Laws
pub mod Polytopes
pub mod Shapes
pub mod Shifts
pub mod Stops
