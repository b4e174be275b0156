pub mod Answers
pub mod Endings
pub mod Lines
pub mod Refusing
pub mod FilesRead
pub mod TornFiles
