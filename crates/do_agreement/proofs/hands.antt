pub mod InHandCounts
pub mod InHandCounted
pub mod LinksRead
pub mod HandSites
pub mod HandCounts
pub mod HandChannels
pub mod HandFits
pub mod HandShows
