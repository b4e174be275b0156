pub mod Texts
pub mod ParsedTrees
