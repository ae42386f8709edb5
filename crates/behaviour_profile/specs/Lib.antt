pub mod EntryLaws
pub mod EntryStarts
pub mod EntryTests
pub mod FirstActions
pub mod ListedBehaviour
pub mod Plans
pub mod Shares
