pub mod TranslatedUnits
pub mod PrunedUnits
pub mod InvocableFiles
