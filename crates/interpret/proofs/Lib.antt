-- Laws of the commands' code.
pub mod RunLaws
