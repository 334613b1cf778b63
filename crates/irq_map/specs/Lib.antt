pub mod Gic
pub mod Interrupts
pub mod Unit
pub mod Written
