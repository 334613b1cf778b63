pub mod AddressSteps
pub mod InstanceSteps
pub mod MatchSteps
pub mod Members
pub mod PhaseSteps
pub mod Ranges
pub mod RelationSteps
pub mod SupportSteps
