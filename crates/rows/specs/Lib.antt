-- Rows as the code finds them in a page.
pub mod RowPlaces
