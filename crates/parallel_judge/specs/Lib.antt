pub mod Working
pub mod UnderWay
pub mod Entering
pub mod Table
pub mod Journal
pub mod Hosts
pub mod Noting
