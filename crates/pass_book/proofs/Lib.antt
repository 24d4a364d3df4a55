-- Laws of the book's refusals, of what it says, and of a turn.
pub mod GroundLaws
pub mod SaidLaws
pub mod TurnLaws
