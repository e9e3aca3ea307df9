pub mod Digits
pub mod Decimal
pub mod Amount
pub mod Within
pub mod PartsView
