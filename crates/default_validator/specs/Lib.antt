pub mod Pieces
pub mod Flags
pub mod Accepts
pub mod Cuts
pub mod Turns
