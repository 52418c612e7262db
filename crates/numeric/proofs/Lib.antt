pub mod Identity
pub mod Vectors
pub mod PostFits
