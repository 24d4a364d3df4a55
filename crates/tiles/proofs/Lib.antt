-- Laws of the page test on key ranges, in any order, and what it decides.
pub mod SumLaws
pub mod TileLaws
pub mod SpanLaws
pub mod NoteLaws
pub mod RangeTiles
