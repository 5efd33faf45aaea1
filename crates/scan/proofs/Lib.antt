pub mod Codes
pub mod Partwise
pub mod Records
pub mod Shown
pub mod Stepping
pub mod Turns
