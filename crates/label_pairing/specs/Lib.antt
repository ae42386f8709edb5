pub mod AnsweredLaws
pub mod Laws
pub mod Matches
pub mod Pairs
pub mod Scaling
pub mod Stops
