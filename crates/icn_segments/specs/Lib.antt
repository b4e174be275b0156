pub mod Ownership
pub mod Places
pub mod Blocks
pub mod Segmented
pub mod RawStacks
