pub mod Doubles
pub mod Runs
