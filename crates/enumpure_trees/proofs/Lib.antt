pub mod AnsweredBehaviourLemmas
pub mod AnsweredPassingLemmas
pub mod BestReplyLemmas
pub mod ChoiceNumberLemmas
pub mod ColumnLemmas
mod CompletedListLemmas
pub mod EquilibriumLineLemmas
pub mod FormSizeLemmas
pub mod JoinedChoiceLemmas
pub mod KeptChoiceLemmas
mod LineLengthLemmas
mod ListedCountLemmas
pub mod ListedLineLemmas
mod MutualReplyLemmas
pub mod OneTextLaws
pub mod OrderedLineLemmas
pub mod OrderedProfileLemmas
pub mod PassingAnswerLemmas
pub mod PassingChoiceLemmas
pub mod PassingLaws
pub mod PassingLineLemmas
mod RankSumLemmas
mod RankedProfileLemmas
mod SortedOrderLemmas
mod SortedStrategyLemmas
mod TextLemmas
pub mod ValueCountLemmas
pub mod ValueIndexLemmas
pub mod ValueListLemmas
pub mod WholeChoiceLemmas
