pub mod Fields
pub mod Steps
pub mod Segments
pub mod Done
