pub mod LastingFacts
pub mod OutsideRows
pub mod Evaluations
pub mod CodeRuns
pub mod GrowingOutside
