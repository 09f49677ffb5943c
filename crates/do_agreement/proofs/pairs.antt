pub mod NotesAsAtoms
pub mod LinksOfNotes
pub mod CallsOfNotes
pub mod LendsOfPairs
pub mod CallsOfPairs
