pub mod PathTexts
