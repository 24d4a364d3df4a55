-- Laws of the head as numbers.
pub mod HeadNumbers
