pub mod Bits
pub mod Table
pub mod Numbers
pub mod Laws
pub mod Examples
