-- Laws of entering a point: what becomes of one page, the split, the descent, and the root list.
pub mod StepRows
pub mod CopyLaws
pub mod SettleLaws
pub mod InPlace
pub mod FinishFacts
pub mod EnterFacts
pub mod EnterLaws
pub mod EnterSteps
pub mod EnterRootLaws
