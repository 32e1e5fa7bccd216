pub mod Dating
