mod AnsweredCutLemmas
pub mod AnsweredFormLemmas
mod AnsweredSolutionLemmas
pub mod AnsweredToolLemmas
pub mod ConstantSumLemmas
pub mod CutAnswerLemmas
pub mod FormSingleLemmas
pub mod KeptPropertyLemmas
pub mod KnownCutLemmas
pub mod LcpPlanLemmas
pub mod LcpSingleLemmas
pub mod LcpTextLemmas
pub mod LpSingleLemmas
pub mod LpTextLemmas
pub mod PerfectEquilibriumLemmas
pub mod PerfectSingleLemmas
pub mod PlanEntryLemmas
pub mod SolvedCutLemmas
pub mod StrategicFormLemmas
pub mod ToolLemmas
pub mod TreeEntryLemmas
