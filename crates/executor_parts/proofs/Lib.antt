pub mod Marks
pub mod Joined
pub mod Spent
pub mod Outputs
pub mod Greatest
