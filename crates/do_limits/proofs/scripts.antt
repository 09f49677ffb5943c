pub mod MadeNumbers
pub mod MadeLists
pub mod Locals
pub mod Instructions
