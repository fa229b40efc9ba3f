pub mod PlaceSteps
pub mod Pieces
pub mod Puts
pub mod RowsPut
pub mod FewLiterals
pub mod RuleTexts
