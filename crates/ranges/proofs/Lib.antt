-- Laws of the code on key ranges: the range that holds a key, the nearest range.
pub mod LesserLaws
pub mod NearestLaws
pub mod HolderLaws
