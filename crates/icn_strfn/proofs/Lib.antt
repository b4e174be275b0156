mod RowAnswers
pub mod CheckedRows
mod MadePieces
mod MappedBytes
mod Trims
mod KeptArguments
mod NamedRecords
mod RowLimits
mod FewBytes
