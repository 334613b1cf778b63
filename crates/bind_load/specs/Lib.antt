pub mod FileMaps
pub mod Forms
pub mod Inner
pub mod Loaded
pub mod RecordData
pub mod RecordOf
pub mod RecordSeen
pub mod Rules
