pub mod AnsweredRecallLemmas
pub mod HistoryLemmas
mod LastEdgeLemmas
pub mod MemberLemmas
mod OneRecallLaws
