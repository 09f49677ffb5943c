pub mod CallsRead
pub mod CoreRead
pub mod SameObject
pub mod QueueLaws
pub mod PostLaws
pub mod NamedParts
pub mod NamedCalls
pub mod CenterLaws
