pub mod ByHalves
pub mod FirstOfPorts
