pub mod Bits
pub mod Polls
