pub mod Places
pub mod Meaning
pub mod Alphabets
pub mod DigitLoops
pub mod Choosing
