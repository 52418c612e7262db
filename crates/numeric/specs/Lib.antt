pub mod Post
pub mod PostOp
