-- Laws of what a question and bat-time answer.
pub mod BandAnswers
