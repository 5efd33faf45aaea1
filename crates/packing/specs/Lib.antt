pub mod Packing
pub mod Coded
pub mod Widths
pub mod Plain
pub mod Rows
pub mod Any
