pub mod Layout
pub mod Blocks
pub mod Counts
pub mod Held
pub mod Lent
