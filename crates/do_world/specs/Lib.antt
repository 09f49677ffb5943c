pub mod Worlds
pub mod Faults
pub mod Sound
pub mod Reading
pub mod Counter
pub mod Mesh
pub mod Builtin
