pub mod Texts
pub mod Values
pub mod Kinds
pub mod Induction
pub mod Equal
pub mod Shared
