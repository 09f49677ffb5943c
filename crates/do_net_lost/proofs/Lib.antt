pub mod LaneTurn
pub mod OneMore
pub mod TextAlike
