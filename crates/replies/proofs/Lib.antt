-- Laws of what the calls that write hand back.
pub mod RepliesAs
