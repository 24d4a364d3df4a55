-- The plan of an entry as the code makes it.
pub mod PlanSteps
