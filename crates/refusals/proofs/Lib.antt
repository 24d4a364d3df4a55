-- Laws of the refusal lists, in the parts that the code tests.
pub mod Earlier
pub mod Lower
pub mod HeadFacts
pub mod FoundPasses
pub mod OpeningParts
pub mod RefusalParts
pub mod TwoEntries
pub mod StartParts
pub mod EndParts
pub mod Outcomes
pub mod ReadAnswers
