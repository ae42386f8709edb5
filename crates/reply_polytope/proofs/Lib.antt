pub mod AnsweredPolytopeLemmas
pub mod EnumerableLemmas
pub mod LeastLemmas
pub mod PolytopeLemmas
mod PolytopePointLaws
pub mod ShiftLemmas
pub mod SingleLemmas
pub mod SlackSystemLemmas
pub mod TableLemmas
