pub mod PacketsExact
pub mod PacketRead
