-- Laws of the live rows in arrays: how they are listed, and that what is read from them is what the definitions say of a page; what its header says.
pub mod PageReadings
pub mod LiveLaws
pub mod LiveReadings
