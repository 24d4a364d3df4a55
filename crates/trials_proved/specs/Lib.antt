-- Document 01, "Table of trials (P: proved)", and the trial in document 02, Paper 4: the data that they name.
pub mod Computing
pub mod Trials
