-- The lent list as the passes of the book, and what they add up to.
pub mod PassList
pub mod Counted
