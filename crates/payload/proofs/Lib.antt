pub mod TextCut
pub mod Meant
