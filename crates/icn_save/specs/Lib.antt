pub mod FileCalls
pub mod Saves
pub mod SaveViews
pub mod Readers
pub mod Spelling
pub mod Reading
pub mod Slices
pub mod Texts
