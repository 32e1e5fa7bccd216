pub mod Fields
pub mod Judging
pub mod Showing
pub mod Tiling
pub mod Walking
pub mod Written
