pub mod Sweeps
pub mod Contents
pub mod Judging
pub mod Entering
