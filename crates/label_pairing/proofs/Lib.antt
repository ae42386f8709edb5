pub mod AllPairLemmas
pub mod AnsweredPairLemmas
pub mod BlockLemmas
pub mod PartnerLemmas
pub mod RowLemmas
pub mod ScaledPointLemmas
pub mod StopLemmas
