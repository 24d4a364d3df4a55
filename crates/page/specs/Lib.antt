-- A page as a value, and the words that it stands for.
pub mod PageValue
