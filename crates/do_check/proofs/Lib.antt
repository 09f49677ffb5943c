pub mod OnlyAllowed
