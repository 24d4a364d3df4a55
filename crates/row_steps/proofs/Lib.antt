-- Laws of the steps of an entry on one page: how its words grow, and what its rows become.
pub mod EditSizes
pub mod EditedRows
