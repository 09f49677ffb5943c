pub mod WordChoice
pub mod ExceptionsExact
pub mod ItemsExact
pub mod ShownExact
pub mod InputsExact
pub mod TextsExact
pub mod ValueFeeds
pub mod LineFeeds
