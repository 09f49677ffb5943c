pub mod SendsCarried
pub mod FirstTaken
pub mod SendingsSpelled
pub mod ChannelsStay
