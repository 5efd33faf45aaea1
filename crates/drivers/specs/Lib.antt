pub mod Faults
pub mod Questions
pub mod Changes
pub mod Wholes
pub mod Layers
