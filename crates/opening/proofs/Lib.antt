-- Laws of the opening.
pub mod OpeningPage
