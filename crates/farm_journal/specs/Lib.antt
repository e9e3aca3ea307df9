pub mod JournalValue
pub mod Faults
pub mod Meeting
