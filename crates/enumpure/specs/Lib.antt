pub mod Ranks
pub mod Replies
pub mod Stops
pub mod Text
