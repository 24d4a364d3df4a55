-- Laws of the lent list as the book's passes, and of what they add up to.
pub mod PassLaws
pub mod WorthLaws
pub mod TotalLaws
