-- The register block of the radio chip: document 02, Paper 3.
pub mod Block
pub mod Access
