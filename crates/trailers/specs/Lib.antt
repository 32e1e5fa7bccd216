pub mod Closings
pub mod Repeats
pub mod ClosingLaws
pub mod RepeatLaws
