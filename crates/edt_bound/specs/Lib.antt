pub mod Addresses
pub mod BoundTree
pub mod Gathering
pub mod Ordering
pub mod Phases
pub mod Relating
pub mod Requiring
pub mod Typing
