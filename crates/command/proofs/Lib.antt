-- Theorems about the command program.
pub mod KindLaws
pub mod StreamLaws
pub mod AnswerLengths
pub mod PieceSteps
pub mod AnyPieces
pub mod PieceReadings
