pub mod LocalTask
pub mod LocalCalls
