pub mod NativeLaws
