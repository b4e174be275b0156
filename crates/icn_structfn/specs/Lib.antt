pub mod AddedElements
pub mod Copies
pub mod SetsAndTables
pub mod Sorting
