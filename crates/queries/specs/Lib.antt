-- The calls that only read.
pub mod QueryCalls
