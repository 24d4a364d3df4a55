-- The store and its calls: document 01, "Two trees", "Pages and rows" (the head, opening) and the two refusal lists.
pub mod Trees
pub mod Lending
pub mod Head
pub mod Calls
pub mod Refusals
pub mod Refused
pub mod Grounds
pub mod Answers
pub mod Writing
pub mod Reading
pub mod Performing
-- The pass book: document 01, "Terms" and "The pass book"
pub mod Passes
pub mod BatTime
pub mod Points
pub mod Book
-- What is claimed of whole lists of calls
pub mod Demand
