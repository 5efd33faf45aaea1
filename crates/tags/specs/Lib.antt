pub mod Tags
pub mod Dumps
pub mod Faults
