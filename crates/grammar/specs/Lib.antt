pub mod Cuts
pub mod Faults
pub mod Files
pub mod Headings
pub mod Laws
pub mod Next
pub mod Reading
