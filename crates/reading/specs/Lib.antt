pub mod Faults
pub mod Checks
pub mod Entries
pub mod Inner
