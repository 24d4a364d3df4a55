-- The pages of an overflow as the code makes them.
pub mod SplitWords
