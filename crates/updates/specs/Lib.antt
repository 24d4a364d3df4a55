-- Starts and ends that are accepted.
pub mod Accepted
