-- Laws of what a lookup answers.
pub mod LookupAnswers
