-- Laws for the proofs of a burst's words.
pub mod ResultLaws
