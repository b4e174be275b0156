pub mod CodeNaming
pub mod AppliedRows
pub mod NamesAfter
pub mod ResumedFunctions
pub mod SizesAfter
pub mod Undoing
