pub mod LongestFronts
pub mod InsideLiterals
pub mod ScannedLines
pub mod ReadSoFar
pub mod OutsideLiterals
pub mod DigitValues
