pub mod Carried
pub mod Naming
pub mod Packing
pub mod RootMessages
pub mod Unpacking
pub mod Spelling
pub mod Reading
pub mod Starting
