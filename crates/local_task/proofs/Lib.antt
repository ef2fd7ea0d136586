pub mod LocalSound
pub mod Registered
