pub mod Order
pub mod State
pub mod Search
pub mod Searched
pub mod Packs
pub mod Answer
pub mod ForC
