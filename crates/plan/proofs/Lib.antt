-- Laws of the plan: counts of rows decide what an entry does.
pub mod RowCounts
pub mod ShapeLaws
pub mod PlanLaws
pub mod PlanReads
pub mod PlanBounds
pub mod PlanRoot
pub mod PlanWays
