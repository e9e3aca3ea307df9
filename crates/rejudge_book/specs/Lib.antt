pub mod Refusals
pub mod Marks
pub mod Book
pub mod BookLayout
pub mod Counts
