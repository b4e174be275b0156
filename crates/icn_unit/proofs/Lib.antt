pub mod Decimals
pub mod GrowingTexts
