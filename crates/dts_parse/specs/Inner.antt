-- Definitions that only the code's own states need: no promise is made of them.
pub mod Machine
pub mod Outcome
pub mod Shown
pub mod Spelled
