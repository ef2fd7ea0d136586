pub mod Locking
pub mod Sleeping
