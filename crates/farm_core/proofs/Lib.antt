pub mod Numbering
pub mod Stepping
pub mod Submits
pub mod Judged
pub mod Entering
pub mod Keeping
pub mod Refusing
mod Aside
mod Promising
mod Naming
pub mod Named
