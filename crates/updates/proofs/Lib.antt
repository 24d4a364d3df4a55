-- Laws of the starts and ends that are accepted.
pub mod PlannedEntries
pub mod StartReplies
pub mod EndReplies
