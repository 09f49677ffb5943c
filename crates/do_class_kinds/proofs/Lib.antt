mod Said
mod NativeSound
pub mod Growing
