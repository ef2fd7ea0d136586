pub mod Hands
pub mod Lent
pub mod Places
pub mod Answers
pub mod Parties
pub mod TaskAnswers
pub mod CallPaths
pub mod Unknown
