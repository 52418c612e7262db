pub mod MoreLevels
