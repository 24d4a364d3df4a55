-- Key ranges as the code has them, and the first one in key order that fits.
pub mod KeyRanges
pub mod Nearest
