pub mod Bytes
pub mod Reader
pub mod Reads
