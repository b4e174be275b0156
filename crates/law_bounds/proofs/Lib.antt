pub mod HeapViews
pub mod RowWords
pub mod EachRow
pub mod EachStep
pub mod CutRuns
