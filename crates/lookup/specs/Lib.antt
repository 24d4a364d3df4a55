-- The lookup of one tree as the code makes it.
pub mod Descent
