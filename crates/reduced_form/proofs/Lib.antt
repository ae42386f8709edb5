mod ActionTextLemmas
pub mod AnsweredFormLemmas
mod CellRowLemmas
pub mod FormAnswerLemmas
pub mod FormCountLemmas
pub mod FormLaws
pub mod OneFormLaws
