pub mod Fronts
pub mod Granted
pub mod Turning
pub mod Windowing
pub mod Laid
