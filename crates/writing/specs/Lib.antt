pub mod Forms
pub mod Puts
pub mod Pens
