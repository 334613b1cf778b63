pub mod Levels
pub mod Suffix
