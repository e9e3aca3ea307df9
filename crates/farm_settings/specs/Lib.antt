pub mod SettingsShape
pub mod Keys
pub mod Values
pub mod Entries
pub mod FarmJson
