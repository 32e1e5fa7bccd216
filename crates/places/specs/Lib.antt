pub mod Fronts
pub mod Given
