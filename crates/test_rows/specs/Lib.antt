pub mod Naming
pub mod Ready
