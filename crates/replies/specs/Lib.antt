-- What the calls that write say of what they are lent and hand back.
pub mod Replies
pub mod RefusedReplies
