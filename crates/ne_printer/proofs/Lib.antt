pub mod AnsweredLineLemmas
pub mod EntryListLemmas
pub mod FractionLemmas
pub mod LineCutLemmas
pub mod LineTextLemmas
pub mod LinesReadLemmas
pub mod NumeralLemmas
pub mod ReadBackLemmas
