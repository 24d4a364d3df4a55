-- Laws of the rows in a page's words: their places, edits of them, and the rows that a page has after edits.
pub mod SeatedRows
pub mod EditLaws
pub mod WithRows
