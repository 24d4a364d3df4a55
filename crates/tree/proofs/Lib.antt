-- One tree: what its definitions mean, and the theory of a tree grown from opening. `Main` has the theorems; the files are in the order
-- in which they build on each other.

-- What the definitions of a page and of a path mean
pub mod Answered
pub mod Lists
pub mod Sorted
pub mod KeyOrderLaws
pub mod Walk
pub mod Places
pub mod Tiling
pub mod Holding
pub mod OrderTotals
pub mod TrueValueSums
pub mod TrueValueUpTo
pub mod PathLength
pub mod Halves
-- Words written are read back
pub mod PageCodec
pub mod TableLaws
-- Pages in use and pages that a call takes
pub mod TakenPages
pub mod UseLaws
-- A model: pages that are functions of their number, rows whose value is a plain number
pub mod ModelPages
pub mod ModelTrees
pub mod ModelSteps
pub mod ModelPromise
-- Entering a point into the model
pub mod ReplacedRows
pub mod HeldTrees
pub mod SlotCuts
pub mod GainedSlots
pub mod OrderedSlots
pub mod SlotLaws
pub mod PageKinds
pub mod FinishedPages
pub mod FinishEffects
pub mod StepLookups
pub mod RowCounts
pub mod EnteredPages
pub mod LeafRows
pub mod GrownStates
-- Our words as the model's pages, and our steps as its steps
pub mod View
pub mod ReplaceViews
pub mod Searches
pub mod OneGain
pub mod RowViews
pub mod RowBounds
pub mod PageViews
pub mod EnterViews
pub mod RootLaws
pub mod AsPlanned
pub mod TreeViews
-- Reading and planning in a tree that the pages hold
pub mod SoundPages
pub mod Reading
pub mod Descent
-- Grown trees
pub mod HeldPaths
pub mod Growth
pub mod Sums
pub mod SeenRows
pub mod SeenPages
pub mod Past
pub mod PastPages
pub mod Height
pub mod Lives
pub mod Shape
pub mod MostMade
pub mod Enough
pub mod Main
