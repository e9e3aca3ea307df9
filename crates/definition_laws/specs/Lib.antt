pub mod TaskOrder
pub mod TestFiles
pub mod TestSizes
pub mod PageSets
pub mod SaidLines
pub mod QuotedTexts
pub mod FirstFault
