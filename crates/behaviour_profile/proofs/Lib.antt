mod ActionTotalLemmas
pub mod AnsweredProfileLemmas
pub mod BehaviourEntryLemmas
pub mod EntryStartLemmas
pub mod FirstFaultLemmas
pub mod GroupListLemmas
pub mod GroupTestLemmas
pub mod ListedEntryLemmas
pub mod PlanShareLemmas
pub mod PlanStopLemmas
pub mod ProfileAnswerLemmas
pub mod TakenShareLemmas
mod TestedBehaviourLemmas
pub mod TestedEntryLemmas
mod TreeGroupLemmas
