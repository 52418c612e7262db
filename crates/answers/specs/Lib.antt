-- The answers of the generator: the refusals. Definitions only.
pub mod Refusals
