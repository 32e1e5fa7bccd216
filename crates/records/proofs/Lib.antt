pub mod ContraReading
pub mod Joining
