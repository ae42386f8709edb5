pub mod ChildLists
pub mod Choices
pub mod Plays
pub mod Settled
pub mod Shortcuts
pub mod Steps
pub mod Stops
