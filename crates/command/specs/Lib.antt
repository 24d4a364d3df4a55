-- The command program: document 01, "Commands".
pub mod Stream
pub mod Pieces
