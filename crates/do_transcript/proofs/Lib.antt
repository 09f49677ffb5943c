pub mod RunsStepByStep
pub mod BlocksToCome
