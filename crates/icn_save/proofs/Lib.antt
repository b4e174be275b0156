pub mod EntryLoop
pub mod WritingLoop
pub mod SpelledFields
pub mod SpelledCalls
pub mod WholeSave
pub mod OneSpelling
pub mod Judging
pub mod WrittenSaves
