pub mod NameTexts
pub mod NumberLists
pub mod Plain
pub mod RowLists
pub mod Texts
pub mod StringBytes
