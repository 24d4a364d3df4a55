-- Laws of the exported calls.
pub mod ExportedLaws
pub mod ExportedLists
pub mod KeptPlaces
pub mod PacketPlaces
pub mod PacketLaws
pub mod BurstLaws
pub mod BlockLaws
