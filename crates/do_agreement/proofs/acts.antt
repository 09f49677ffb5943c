pub mod StepTallies
pub mod ActsAgree
pub mod ActEvents
