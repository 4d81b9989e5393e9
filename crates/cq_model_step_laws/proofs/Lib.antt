pub mod Numbers
pub mod Pasts
pub mod Times
pub mod Follows
pub mod Stays
