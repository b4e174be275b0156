pub mod Checks
pub mod Layouts
pub mod Stopping
pub mod TextArguments
