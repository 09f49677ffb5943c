mod CounterClasses
mod CounterTexts
mod CounterSound
mod MeshText
mod NoCode
pub mod AssemblyFaults
pub mod CodeSteps
pub mod CodeLoops
mod CodeKinds
pub mod SeatLoops
pub mod SeatSteps
pub mod TopLists
pub mod TopSteps
pub mod BytesTold
pub mod PartsInOrder
