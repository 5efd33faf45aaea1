pub mod Faults
pub mod Holding
