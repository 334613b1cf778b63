-- Definitions that only the states of this crate's own code need. No definition of a promise stands on them.
pub mod IndexData
pub mod PropOrder
