pub mod ActionCountLemmas
pub mod AscendingOrderLemmas
pub mod EndListLemmas
pub mod LeftOutDecisionLemmas
mod MoveLemmas
pub mod OwnNumberLemmas
mod PlayerDecisionLemmas
pub mod ReachedDecisionLemmas
mod ReducedListLemmas
pub mod StepLemmas
pub mod WalkStepLemmas
pub mod WalkTurnLemmas
pub mod WayCountLemmas
pub mod WayProductLemmas
