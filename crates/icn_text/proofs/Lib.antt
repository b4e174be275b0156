pub mod Listed
pub mod FuncNames
pub mod KeywordNames
pub mod OpNumbers
mod DigitSteps
mod Numerals
mod ReadingComplete
mod ReadingSound
mod DecidedIntegers
mod Powers
mod FitsIn64Bits
mod WrittenIntegers
mod GrowingDigits
