pub mod Results
pub mod Unchanged
pub mod Growths
pub mod Undos
pub mod HeldValues
