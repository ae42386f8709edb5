pub mod AnsweredLayoutLemmas
pub mod AxisLemmas
pub mod CellPlaceLemmas
pub mod NumberedTextLemmas
pub mod OneLayoutLaws
