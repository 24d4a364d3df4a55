-- The answers as numbers for C.
pub mod Said
