-- One tree: document 01, "Pages and rows", "The pass book" (path, pages opened, height) and refusal 26.

-- One page
pub mod Row
pub mod KeyOrder
pub mod PageTest
pub mod Spoiled
pub mod TrueValue
pub mod Edit
pub mod Fresh
pub mod RowEdits
-- A tree in its page table and its root list
pub mod Use
pub mod Tree
pub mod Lookup
pub mod Path
pub mod RowSteps
pub mod Overflow
pub mod Enter
pub mod Plan
pub mod Limits
pub mod Taking
pub mod Opened
-- A tree grown from opening, as the theorems speak of it
pub mod PointSums
pub mod PointTotals
pub mod Grown
pub mod Alike
