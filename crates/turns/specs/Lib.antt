-- The turns of the command program.
pub mod Turns
