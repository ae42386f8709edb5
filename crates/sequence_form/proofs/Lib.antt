pub mod AnsweredFormLemmas
mod BuiltFormLemmas
pub mod FormLemmas
pub mod KeptFormLemmas
pub mod Laws
mod NumberingLemmas
mod PathStepLemmas
mod SideLemmas
pub mod TableLeafLemmas
