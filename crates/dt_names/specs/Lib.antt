pub mod Answer
pub mod Clash
pub mod Facts
pub mod Inner
pub mod Names
pub mod Pieces
