pub mod LossFits
pub mod LossEvents
