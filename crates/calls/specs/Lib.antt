pub mod Rows
pub mod Working
pub mod Starts
pub mod Openings
pub mod Finds
pub mod Reads
