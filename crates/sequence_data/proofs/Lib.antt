pub mod AnsweredFormLemmas
pub mod CellSumLemmas
pub mod GainLemmas
mod GatheredLeafLemmas
pub mod OneFormLemmas
pub mod OrderLemmas
pub mod PlaceLemmas
pub mod SetEntryLemmas
pub mod StepStageLemmas
pub mod WrittenCellLemmas
