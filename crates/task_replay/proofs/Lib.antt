pub mod Replayed
pub mod Playing
pub mod Refused
pub mod Named
pub mod Allowed
