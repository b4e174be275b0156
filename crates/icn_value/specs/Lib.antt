pub mod Csets
pub mod Limited
pub mod Values
pub mod Store
pub mod Members
pub mod Sameness
pub mod Sizes
pub mod Changes
