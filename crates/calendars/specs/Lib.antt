pub mod Entered
pub mod Processing
pub mod Sets
