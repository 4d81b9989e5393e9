pub mod Unread
pub mod Counting
pub mod Following
pub mod Later
pub mod Reaching
pub mod Trimming
pub mod Ways
pub mod Showing
