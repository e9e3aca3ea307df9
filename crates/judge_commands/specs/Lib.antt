pub mod Judged
pub mod Making
