pub mod Images
pub mod Cases
pub mod Values
pub mod Laws
