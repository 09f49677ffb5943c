pub mod IsTold
pub mod CoreRead
pub mod ReadEach
pub mod CallsFit
