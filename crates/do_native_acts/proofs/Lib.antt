pub mod SmallParts
pub mod ChangesEnd
pub mod MethodMissing
