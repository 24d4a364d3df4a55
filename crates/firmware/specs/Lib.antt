-- The store as firmware in C calls it.
pub mod Exported
pub mod Packets
pub mod BurstCalls
pub mod BlockCalls
