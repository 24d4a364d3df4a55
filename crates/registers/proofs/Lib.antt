-- Laws of the registers' code.
pub mod RegisterLaws
