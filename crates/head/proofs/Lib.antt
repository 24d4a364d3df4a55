-- Laws of the test of a head.
pub mod FitLaws
pub mod HeadParts
