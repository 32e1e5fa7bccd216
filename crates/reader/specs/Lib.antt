pub mod Labelling
pub mod Settings
