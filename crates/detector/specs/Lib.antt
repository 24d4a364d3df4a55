-- The command program as a whole.
pub mod Program
