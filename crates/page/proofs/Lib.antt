-- Laws of pages written whole.
pub mod FreshLaws
