pub mod AnsweredFormLemmas
pub mod EliminationLemmas
mod KeptCellLemmas
mod KeptFormLemmas
pub mod KeptSingleLemmas
