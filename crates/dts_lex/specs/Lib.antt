pub mod Between
pub mod Inner
pub mod Left
pub mod Names
pub mod Slices
pub mod Spelled
pub mod Tokens
