pub mod ReadStacks
pub mod Agreement
