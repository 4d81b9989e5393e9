pub mod Tables
pub mod HeldTables
pub mod Chosen
pub mod Views
pub mod Taking
