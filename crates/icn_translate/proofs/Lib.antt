pub mod DraftStarts
pub mod ExpressionLists
pub mod NameTable
pub mod RowNumbers
