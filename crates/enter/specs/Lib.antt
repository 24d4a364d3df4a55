-- Entering a point as the code does it.
pub mod EnterWords
pub mod EnterRoot
