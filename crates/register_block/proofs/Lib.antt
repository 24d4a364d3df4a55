-- What the definitions of the register block come to.
pub mod WriteCases
pub mod BlockLengths
pub mod BlockBytes
pub mod ReadOffsets
pub mod LineReadings
pub mod BlockReadings
pub mod LastWritten
