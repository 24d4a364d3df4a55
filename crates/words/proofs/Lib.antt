-- Theorems about words and values, and laws of loops.
pub mod ValueLaws
pub mod Measure
pub mod LineLaws
pub mod OverwriteLaws
pub mod LoopLaws
