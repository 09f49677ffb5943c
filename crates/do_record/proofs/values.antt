pub mod Walking
pub mod ObjectsExact
pub mod SinglesTaken
pub mod SolidWords
pub mod SinglesGiven
pub mod ValueStep
pub mod ValueTaken
pub mod ValueGiven
