pub mod Fronts
pub mod FlagSteps
pub mod Steps
pub mod WideTokens
pub mod WorkedRows
