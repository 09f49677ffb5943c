pub mod TableStays
pub mod ExceptionExact
pub mod PayloadParts
pub mod PayloadExact
pub mod WholePayload
