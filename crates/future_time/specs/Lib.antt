pub mod Kept
pub mod Leaving
pub mod Orders
pub mod Sleeps
pub mod Tables
pub mod Ticking
pub mod Timeouts
pub mod Watching
