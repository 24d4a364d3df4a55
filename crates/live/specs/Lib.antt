-- The live rows of a page as the code has them, in arrays, and what is read from them.
pub mod LiveRows
pub mod LiveHeld
pub mod Tested
pub mod Survey
