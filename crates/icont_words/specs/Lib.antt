pub mod Words
pub mod Command
pub mod Asking
pub mod Matched
