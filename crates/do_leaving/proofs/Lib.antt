mod RisingLists
pub mod StoreLookups
pub mod SlotNames
mod MachineKeeps
mod SweptIsKept
pub mod TakenInTurn
pub mod CountsOff
mod SerialsRise
mod LeaversFound
mod OneLeaves
mod LeftSoFar
mod SweepFrees
mod LeaversAreDropped
mod UsesOff
mod SweptSoFar
mod FreedThenLeft
