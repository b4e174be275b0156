pub mod Bits
pub mod CsetMembers
pub mod SameValues
