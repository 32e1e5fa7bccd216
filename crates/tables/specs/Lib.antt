pub mod Forms
pub mod Kinds
pub mod Laying
pub mod Lines
pub mod Walks
