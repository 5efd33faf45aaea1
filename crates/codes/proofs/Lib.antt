pub mod BitLaws
pub mod Cuts
pub mod Integers
pub mod Letters
pub mod Choice
pub mod Faults
