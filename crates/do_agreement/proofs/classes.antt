pub mod KnownAfter
pub mod ClassesTold
pub mod ClassesAfter
