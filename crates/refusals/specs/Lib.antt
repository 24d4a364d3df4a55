-- The refusal lists cut where the code cuts them.
pub mod Grounds
