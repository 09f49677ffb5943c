pub mod Weights
pub mod ListUpdates
pub mod Checked
pub mod KnownWeights
pub mod LocalValues
pub mod Pushes
