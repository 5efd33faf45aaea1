pub mod Faults
pub mod Identifiers
pub mod Views
pub mod Tables
pub mod Inner
