pub mod Written
pub mod Puts
pub mod Image
pub mod Starts
pub mod Holds
pub mod Lowered
