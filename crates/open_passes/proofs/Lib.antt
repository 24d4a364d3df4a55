-- Laws of the list of open passes.
pub mod FindLaws
pub mod ClosingUp
