pub mod RowAnswers
pub mod WorldCharges
mod ItemValues
pub mod NewLists
