pub mod FrontExact
pub mod FrontPlaces
pub mod PiecesExact
