pub mod Rows
mod Names
mod Plain
