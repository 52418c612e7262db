pub mod ReadBack
pub mod Counts
pub mod Length
