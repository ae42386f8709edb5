pub mod Decisions
pub mod Ends
pub mod LeftOut
pub mod Made
pub mod OwnNumbers
pub mod Reduced
