pub mod Expecting
pub mod Records
pub mod Taking
