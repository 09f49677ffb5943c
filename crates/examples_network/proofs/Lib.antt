pub mod Samples
mod Streams
mod PeerFaults
mod Channels
mod Ends
