-- Laws of the turns.
pub mod TurnLaws
