pub mod Board
pub mod Closing
pub mod Duties
pub mod Rooms
pub mod Settled
pub mod Sleep
