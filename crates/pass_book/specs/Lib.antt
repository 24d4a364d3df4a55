-- The code's calls and turns, as the book of the definitions has them.
pub mod BookCalls
pub mod Turns
