pub mod Matters
pub mod CellKinds
pub mod ExtremeKinds
pub mod RowFacts
pub mod RowValue
pub mod RowShape
