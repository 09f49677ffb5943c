pub mod CommitFits
pub mod CommitShows
pub mod EntriesJudged
pub mod Moving
pub mod MoveTallies
