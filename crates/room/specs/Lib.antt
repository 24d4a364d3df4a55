-- The grounds of an entry, cut where the code cuts them.
pub mod PlanGrounds
