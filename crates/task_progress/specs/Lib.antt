pub mod StepsLeft
pub mod OwnSteps
pub mod Attempts
pub mod Waiting
pub mod Ending
pub mod AtRest
pub mod Tables
pub mod Carried
