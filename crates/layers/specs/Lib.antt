pub mod Piles
pub mod Shows
