-- Laws of the key order as numbers in an array.
pub mod InsertLaws
pub mod EntryLaws
pub mod OrderRowLaws
pub mod OrderReadings
