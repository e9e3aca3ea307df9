pub mod JournalLines
pub mod NoContests
pub mod Reports
pub mod Summaries
