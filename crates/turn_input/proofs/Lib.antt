-- Laws of the bytes that wait.
pub mod BufferLaws
