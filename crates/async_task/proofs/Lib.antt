pub mod HandleParties
pub mod HandlePolls
