-- Laws of events in bytes.
pub mod ReadLaws
