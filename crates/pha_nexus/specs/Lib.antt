pub mod Chain
pub mod Cutting
pub mod Inner
pub mod Matching
pub mod Naming
pub mod Passing
pub mod Rows
pub mod Space
