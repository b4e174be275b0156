pub mod NamedSettings
pub mod RowsNamed
pub mod RowSizes
