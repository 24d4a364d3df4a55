-- Laws of two descents that share pages.
pub mod TogetherLaws
pub mod AheadLaws
