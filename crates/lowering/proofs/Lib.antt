pub mod Hits
pub mod Skipped
pub mod Slots
pub mod Paths
pub mod Rounds
pub mod Others
