-- Laws of bands.
pub mod Differences
pub mod BandLaws
pub mod BandLookups
pub mod FewerRoots
