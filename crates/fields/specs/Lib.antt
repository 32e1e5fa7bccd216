pub mod Characters
pub mod Judging
pub mod Laws
pub mod Samples
pub mod Words
