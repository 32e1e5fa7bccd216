pub mod Days
pub mod Placing
pub mod Fronting
pub mod Givens
pub mod Meanings
pub mod Unbroken
