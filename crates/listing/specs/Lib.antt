pub mod Fills
pub mod Lines
pub mod Refusals
pub mod Verdicts
pub mod Listings
