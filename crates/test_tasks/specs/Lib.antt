pub mod Counting
pub mod Stages
