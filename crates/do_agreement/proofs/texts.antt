pub mod WiresPutIn
pub mod WiresDropped
pub mod TextsAgree
