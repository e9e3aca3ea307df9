pub mod Scripts
pub mod Judgings
pub mod Makings
pub mod Servings
pub mod Hostings
pub mod Unread
