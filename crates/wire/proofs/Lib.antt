pub mod ReadBack
pub mod Numbers
pub mod Stores
pub mod Shifts
