pub mod Numbers
pub mod Scales
pub mod Bounds
pub mod WorkedRows
