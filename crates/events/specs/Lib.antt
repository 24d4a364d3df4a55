-- Events, as the code takes them from their bytes.
pub mod Events
