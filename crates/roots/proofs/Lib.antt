-- Laws of the root search.
pub mod RootSearch
pub mod TopLaws
