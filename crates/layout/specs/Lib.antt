pub mod Plans
pub mod Lays
pub mod Measures
pub mod Anew
pub mod Texts
