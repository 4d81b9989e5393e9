pub mod NumberColumns
pub mod Puts
pub mod Width
