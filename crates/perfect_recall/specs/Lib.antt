pub mod LastEdges
pub mod Members
pub mod Found
