-- Two descents that share pages, as the code makes them.
pub mod Together
pub mod Ahead
