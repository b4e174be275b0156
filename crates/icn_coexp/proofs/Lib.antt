pub mod ChangedEntries
pub mod TransferredEntries
pub mod AddedEntries
pub mod OthersKept
