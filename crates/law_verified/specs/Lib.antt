pub mod Noted
pub mod Verified
pub mod FittingTrees
pub mod TranslationLaws
pub mod VerifierShapes
