pub mod Fronts
pub mod Moves
pub mod Outcomes
pub mod TakenBack
