pub mod WordLemmas
pub mod AskingLemmas
pub mod AddressLemmas
pub mod ParsingLemmas
