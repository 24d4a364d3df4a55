-- Laws of the command program.
pub mod ProgramLaws
