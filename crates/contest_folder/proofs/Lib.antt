pub mod Steps
pub mod Items
pub mod SubmissionParts
pub mod FileNames
pub mod Folders
pub mod Held
pub mod Readings
