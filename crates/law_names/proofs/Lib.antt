mod NamedTexts
mod RowValues
pub mod RowsNamed
pub mod RowSizes
