pub mod Numbers
pub mod KeyedLists
pub mod PlacesChanged
pub mod StepAsCommits
