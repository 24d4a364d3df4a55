-- A burst, as the code enters it.
pub mod BurstReplies
