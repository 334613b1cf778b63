pub mod Cutting
pub mod Ranges
pub mod Registers
pub mod Translation
