pub mod Book
pub mod BookLayout
pub mod Held
pub mod Changes
pub mod Behind
pub mod Walks
