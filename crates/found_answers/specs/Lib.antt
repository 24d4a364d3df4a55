-- What is answered by what lookups found.
pub mod FoundAnswers
