pub mod FaultKinds
pub mod TreeFaults
