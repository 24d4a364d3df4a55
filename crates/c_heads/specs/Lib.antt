-- The head as numbers for C.
pub mod Heads
