pub mod NamesAsObjects
