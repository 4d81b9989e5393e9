pub mod Csv
pub mod Dates
pub mod Fields
pub mod Fits
pub mod Lines
pub mod NumberTexts
pub mod Printed
pub mod Walk
