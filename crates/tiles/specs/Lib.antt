-- The page test on key ranges, in any order.
pub mod TileTest
