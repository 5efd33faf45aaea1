pub mod Puttings
pub mod Formed
