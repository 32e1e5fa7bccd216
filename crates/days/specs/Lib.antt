pub mod Dates
pub mod Weekdays
