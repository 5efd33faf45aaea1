pub mod Hexing
pub mod Passing
