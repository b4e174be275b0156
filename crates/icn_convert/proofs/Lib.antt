mod MemberLists
mod SameTexts
mod NamedRecords
mod Ranges
mod NamedProcedures
mod RecordNumbers
mod Comparison
