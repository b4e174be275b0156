pub mod Transfers
pub mod KeptEntries
