pub mod MemberTexts
pub mod PutSteps
pub mod PieceChecks
pub mod ReadSteps
pub mod WriteRows
