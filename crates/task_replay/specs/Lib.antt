pub mod Line
pub mod Replay
pub mod Refusal
pub mod Names
pub mod Arguments
pub mod Progress
