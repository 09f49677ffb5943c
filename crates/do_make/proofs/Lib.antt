pub mod LinesSummed
pub mod TextsBehind
