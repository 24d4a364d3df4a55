-- Bands of keys, as the code finds them.
pub mod Bands
