-- Where a descent starts, as the code finds it.
pub mod TopPage
