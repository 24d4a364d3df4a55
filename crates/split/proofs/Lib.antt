-- Laws of the split: the pages that the code makes are those of Overflow.
pub mod SplitLaws
pub mod SplitRows
