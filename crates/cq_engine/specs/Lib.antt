pub mod Views
pub mod Gathering
pub mod TableWidths
pub mod Commands
pub mod Held
pub mod Reading
pub mod Sources
