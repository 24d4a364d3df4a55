-- Theorems about bursts, and demand 3 with bursts and accesses to the register block in the list.
pub mod BurstReadings
pub mod WholeCommands
pub mod SentEvents
pub mod StepsAlike
pub mod CallsStand
pub mod BlockSteps
pub mod StepsReady
pub mod Main
