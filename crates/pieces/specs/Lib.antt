-- Pieces of the stream, as the code runs them.
pub mod Fed
