pub mod InterruptLaws
pub mod WrittenLaws
