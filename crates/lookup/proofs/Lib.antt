-- Laws of the lookup.
pub mod LookupLaws
pub mod HeldRanges
