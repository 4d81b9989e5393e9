pub mod Tests
pub mod Cores
pub mod Views
