pub mod AnsweredCheckLemmas
pub mod CheckLaws
pub mod LineStepLemmas
pub mod OneAnswerLaws
pub mod TreeLineLemmas
