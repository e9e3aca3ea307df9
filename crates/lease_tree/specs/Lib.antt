pub mod Keys
pub mod Trees
pub mod TreeValue
pub mod TreeLayout
