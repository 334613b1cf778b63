pub mod Digits
pub mod Preorder
pub mod Runs
pub mod Steps
