pub mod Causes
pub mod Services
