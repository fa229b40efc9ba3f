pub mod OneNumber
pub mod SpreadTime
pub mod TranslationPace
