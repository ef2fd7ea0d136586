pub mod Keeps
pub mod Staging
