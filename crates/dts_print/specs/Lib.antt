pub mod Inner
pub mod Printed
