pub mod RowWords
pub mod ItemsLeft
