pub mod Counts
pub mod Entries
pub mod Next
pub mod Tables
