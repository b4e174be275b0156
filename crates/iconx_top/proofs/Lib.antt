pub mod OptionWords
pub mod JudgedImages
pub mod CallOutcomes
pub mod ReportLines
pub mod OneJob
pub mod AskedAnswers
pub mod SomeJob
pub mod NewImages
pub mod Migrations
mod Absences
mod AskedRuns
