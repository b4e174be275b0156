pub mod ByteLists
pub mod Decimals
pub mod GivenLines
pub mod Escapes
pub mod ScannedTokens
pub mod ParsedTexts
