pub mod Join
pub mod Copied
pub mod Lengths
pub mod Whole
pub mod Starts
pub mod Shown
pub mod Bridge
pub mod TwoParts
