pub mod PutPieces
pub mod Checks
pub mod ReadParts
pub mod WriteRows
