-- Words and values: document 01, "Pages and rows".
pub mod Words
pub mod Lists
pub mod Sums
pub mod Overwrite
pub mod Value
