pub mod Counts
pub mod Inputs
pub mod MemInputs
pub mod MemSink
pub mod RealInputs
pub mod RealSink
pub mod Sink
