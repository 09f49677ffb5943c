mod Changes
mod Moves
mod Passing
