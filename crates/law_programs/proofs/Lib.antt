pub mod WrittenImages
pub mod ImageRuns
