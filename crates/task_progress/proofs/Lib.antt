pub mod Vocabulary
pub mod Rows
pub mod Sums
pub mod Attempts
pub mod Relied
pub mod Waits
pub mod Ending
pub mod OwnSteps
pub mod AtRest
pub mod Lasting
pub mod ComesToRest
pub mod Seen
pub mod Tables
mod WorkedAttempts
mod WorkedRest
pub mod Carried
