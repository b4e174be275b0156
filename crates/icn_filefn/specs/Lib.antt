pub mod OpenParts
pub mod WrittenFiles
pub mod ClosedFiles
