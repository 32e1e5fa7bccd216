pub mod Questions
