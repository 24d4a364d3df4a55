-- Laws of numbers as bytes.
pub mod ByteLaws
