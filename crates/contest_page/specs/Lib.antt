pub mod ViewValue
pub mod Views
pub mod ViewShape
pub mod Page
