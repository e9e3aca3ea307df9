pub mod FarmShape
pub mod NamesValue
pub mod NamesLayout
pub mod ContestLayout
pub mod FarmLayout
