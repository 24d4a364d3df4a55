-- Laws for the proofs of the burst.
pub mod BurstSteps
