-- The key order of a page's live rows as the code keeps it.
pub mod Entries
