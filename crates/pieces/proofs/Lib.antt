-- Laws of pieces.
pub mod PieceRuns
