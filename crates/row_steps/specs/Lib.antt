-- The steps of an entry on one page, as the code makes them.
pub mod PageEdits
