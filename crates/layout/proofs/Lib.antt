pub mod Totals
pub mod Runs
pub mod Readying
pub mod Anews
pub mod Alone
