pub mod AnsweredLimitLemmas
pub mod DrawLemmas
pub mod FirstUseLemmas
pub mod GameLemmas
pub mod LastMoveLemmas
pub mod LimitLemmas
mod NumberLemmas
mod PlayerSetLemmas
pub mod ParentPathLemmas
pub mod PrefixOrderLemmas
pub mod SameTableLemmas
pub mod SetReadLemmas
pub mod StrideLemmas
pub mod TableCountLemmas
pub mod TreeLaws
