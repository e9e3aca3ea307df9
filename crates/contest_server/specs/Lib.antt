pub mod Visits
pub mod Lanes
pub mod Texts
pub mod Beside
pub mod Serving
pub mod Served
pub mod Contest
