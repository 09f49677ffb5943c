pub mod LinesSoFar
pub mod OneAnswer
pub mod WordChoice
pub mod StartsExact
pub mod PlanExact
