-- Bursts, and demand 3 of lists that have bursts in them.
pub mod Bursts
pub mod Steps
pub mod Demand
